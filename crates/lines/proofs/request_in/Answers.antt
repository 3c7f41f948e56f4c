-- `lines::request_in` meets its contract: so many words of the line were taken, and what they say decides.
use Rattle.std.proofs.Common.{[], ◌∷◌, rules, tests, sym, ◌∙◌, arith}
use Rattle.lines.proofs.WordLaws.{taken_first, taken_more, none_few, none_many, none_not_s, none_bad, some_five}
use Rattle.lines.proofs.WordLaws.{not_s_length, not_s_byte, s_is}
use Rattle.lines.proofs.request_in.Goals as goal

pub returns-in_default : goal.returns-in_default
returns-in_default c =
    let w = c.split-words.ensures in
    let t1 = taken_first c.args.line.now c.split-words.result c.next.new.self c.in_ok-next.field-0 c.in_ok-next.ensures.steps
    w.rest w.done w.closure (λ x r q k. search (rules, tests)) in
    sym (none_not_s t1 (not_s_length _ (λ e. omega arith)))

pub returns-in_default-2 : goal.returns-in_default-2
returns-in_default-2 c =
    let w = c.split-words.ensures in
    let t1 = taken_first c.args.line.now c.split-words.result c.next.new.self c.in_ok-next.field-0 c.in_ok-next.ensures.steps
    w.rest w.done w.closure (λ x r q k. search (rules, tests)) in
    sym (none_not_s t1 (not_s_byte _ (λ e. omega arith)))

pub returns-in_default-3 : goal.returns-in_default-3
returns-in_default-3 c =
    let w = c.split-words.ensures in
    let t1 = taken_first c.args.line.now c.split-words.result c.next.new.self c.in_ok-next.field-0 c.in_ok-next.ensures.steps
    w.rest w.done w.closure (λ x r q k. search (rules, tests)) in
    sym (none_not_s t1 (not_s_length _ (λ e. omega arith)))

pub returns-in_err-next-2 : goal.returns-in_err-next-2
returns-in_err-next-2 c =
    let w = c.split-words.ensures in
    let t1 = taken_first c.args.line.now c.split-words.result c.next.new.self c.in_ok-next.field-0 c.in_ok-next.ensures.steps
    w.rest w.done w.closure (λ x r q k. search (rules, tests)) in
    c.from_residual-in_err-next-2.ensures
    ∙ sym (none_few t1 c.next-2.new.self c.in_err-next-2.ensures.steps (omega arith))

pub returns-in_err-number : goal.returns-in_err-number
returns-in_err-number c =
    let w = c.split-words.ensures in
    let t1 = taken_first c.args.line.now c.split-words.result c.next.new.self c.in_ok-next.field-0 c.in_ok-next.ensures.steps
    w.rest w.done w.closure (λ x r q k. search (rules, tests)) in
    let t2 = taken_more t1 c.in_ok-next-2.field-0 c.next-2.new.self c.in_ok-next-2.ensures.steps in
    c.from_residual-in_err-number.ensures
    ∙ sym (none_bad _ ([]) _ t2 c.in_err-number.ensures)

pub returns-in_err-next-3 : goal.returns-in_err-next-3
returns-in_err-next-3 c =
    let w = c.split-words.ensures in
    let t1 = taken_first c.args.line.now c.split-words.result c.next.new.self c.in_ok-next.field-0 c.in_ok-next.ensures.steps
    w.rest w.done w.closure (λ x r q k. search (rules, tests)) in
    let t2 = taken_more t1 c.in_ok-next-2.field-0 c.next-2.new.self c.in_ok-next-2.ensures.steps in
    c.from_residual-in_err-next-3.ensures
    ∙ sym (none_few t2 c.next-3.new.self c.in_err-next-3.ensures.steps (omega arith))

pub returns-in_err-number-2 : goal.returns-in_err-number-2
returns-in_err-number-2 c =
    let w = c.split-words.ensures in
    let t1 = taken_first c.args.line.now c.split-words.result c.next.new.self c.in_ok-next.field-0 c.in_ok-next.ensures.steps
    w.rest w.done w.closure (λ x r q k. search (rules, tests)) in
    let t2 = taken_more t1 c.in_ok-next-2.field-0 c.next-2.new.self c.in_ok-next-2.ensures.steps in
    let t3 = taken_more t2 c.in_ok-next-3.field-0 c.next-3.new.self c.in_ok-next-3.ensures.steps in
    c.from_residual-in_err-number-2.ensures
    ∙ sym (none_bad _ (c.in_ok-next-2.field-0.now ∷ []) _ t3 c.in_err-number-2.ensures)

pub returns-in_err-next-4 : goal.returns-in_err-next-4
returns-in_err-next-4 c =
    let w = c.split-words.ensures in
    let t1 = taken_first c.args.line.now c.split-words.result c.next.new.self c.in_ok-next.field-0 c.in_ok-next.ensures.steps
    w.rest w.done w.closure (λ x r q k. search (rules, tests)) in
    let t2 = taken_more t1 c.in_ok-next-2.field-0 c.next-2.new.self c.in_ok-next-2.ensures.steps in
    let t3 = taken_more t2 c.in_ok-next-3.field-0 c.next-3.new.self c.in_ok-next-3.ensures.steps in
    c.from_residual-in_err-next-4.ensures
    ∙ sym (none_few t3 c.next-4.new.self c.in_err-next-4.ensures.steps (omega arith))

pub returns-in_err-number-3 : goal.returns-in_err-number-3
returns-in_err-number-3 c =
    let w = c.split-words.ensures in
    let t1 = taken_first c.args.line.now c.split-words.result c.next.new.self c.in_ok-next.field-0 c.in_ok-next.ensures.steps
    w.rest w.done w.closure (λ x r q k. search (rules, tests)) in
    let t2 = taken_more t1 c.in_ok-next-2.field-0 c.next-2.new.self c.in_ok-next-2.ensures.steps in
    let t3 = taken_more t2 c.in_ok-next-3.field-0 c.next-3.new.self c.in_ok-next-3.ensures.steps in
    let t4 = taken_more t3 c.in_ok-next-4.field-0 c.next-4.new.self c.in_ok-next-4.ensures.steps in
    c.from_residual-in_err-number-3.ensures
    ∙ sym (none_bad _ (c.in_ok-next-2.field-0.now ∷ c.in_ok-next-3.field-0.now ∷ []) _ t4 c.in_err-number-3.ensures)

pub returns-in_err-next-5 : goal.returns-in_err-next-5
returns-in_err-next-5 c =
    let w = c.split-words.ensures in
    let t1 = taken_first c.args.line.now c.split-words.result c.next.new.self c.in_ok-next.field-0 c.in_ok-next.ensures.steps
    w.rest w.done w.closure (λ x r q k. search (rules, tests)) in
    let t2 = taken_more t1 c.in_ok-next-2.field-0 c.next-2.new.self c.in_ok-next-2.ensures.steps in
    let t3 = taken_more t2 c.in_ok-next-3.field-0 c.next-3.new.self c.in_ok-next-3.ensures.steps in
    let t4 = taken_more t3 c.in_ok-next-4.field-0 c.next-4.new.self c.in_ok-next-4.ensures.steps in
    c.from_residual-in_err-next-5.ensures
    ∙ sym (none_few t4 c.next-5.new.self c.in_err-next-5.ensures.steps (omega arith))

pub returns-in_err-number-4 : goal.returns-in_err-number-4
returns-in_err-number-4 c =
    let w = c.split-words.ensures in
    let t1 = taken_first c.args.line.now c.split-words.result c.next.new.self c.in_ok-next.field-0 c.in_ok-next.ensures.steps
    w.rest w.done w.closure (λ x r q k. search (rules, tests)) in
    let t2 = taken_more t1 c.in_ok-next-2.field-0 c.next-2.new.self c.in_ok-next-2.ensures.steps in
    let t3 = taken_more t2 c.in_ok-next-3.field-0 c.next-3.new.self c.in_ok-next-3.ensures.steps in
    let t4 = taken_more t3 c.in_ok-next-4.field-0 c.next-4.new.self c.in_ok-next-4.ensures.steps in
    let t5 = taken_more t4 c.in_ok-next-5.field-0 c.next-5.new.self c.in_ok-next-5.ensures.steps in
    c.from_residual-in_err-number-4.ensures
    ∙ sym (none_bad _ (c.in_ok-next-2.field-0.now ∷ c.in_ok-next-3.field-0.now ∷ c.in_ok-next-4.field-0.now ∷ []) _ t5 c.in_err-number-4.ensures)

pub returns-in-None : goal.returns-in-None
returns-in-None c =
    let w = c.split-words.ensures in
    let t1 = taken_first c.args.line.now c.split-words.result c.next.new.self c.in_ok-next.field-0 c.in_ok-next.ensures.steps
    w.rest w.done w.closure (λ x r q k. search (rules, tests)) in
    let t2 = taken_more t1 c.in_ok-next-2.field-0 c.next-2.new.self c.in_ok-next-2.ensures.steps in
    let t3 = taken_more t2 c.in_ok-next-3.field-0 c.next-3.new.self c.in_ok-next-3.ensures.steps in
    let t4 = taken_more t3 c.in_ok-next-4.field-0 c.next-4.new.self c.in_ok-next-4.ensures.steps in
    let t5 = taken_more t4 c.in_ok-next-5.field-0 c.next-5.new.self c.in_ok-next-5.ensures.steps in
    sym (some_five t5 c.next-6.new.self c.in-None.ensures.steps (s_is _ (omega arith) (omega arith)) c.in_ok-number.ensures
    c.in_ok-number-2.ensures c.in_ok-number-3.ensures c.in_ok-number-4.ensures)

pub returns-in-Some : goal.returns-in-Some
returns-in-Some c =
    let w = c.split-words.ensures in
    let t1 = taken_first c.args.line.now c.split-words.result c.next.new.self c.in_ok-next.field-0 c.in_ok-next.ensures.steps
    w.rest w.done w.closure (λ x r q k. search (rules, tests)) in
    let t2 = taken_more t1 c.in_ok-next-2.field-0 c.next-2.new.self c.in_ok-next-2.ensures.steps in
    let t3 = taken_more t2 c.in_ok-next-3.field-0 c.next-3.new.self c.in_ok-next-3.ensures.steps in
    let t4 = taken_more t3 c.in_ok-next-4.field-0 c.next-4.new.self c.in_ok-next-4.ensures.steps in
    let t5 = taken_more t4 c.in_ok-next-5.field-0 c.next-5.new.self c.in_ok-next-5.ensures.steps in
    let t6 = taken_more t5 c.in-Some.field-0 c.next-6.new.self c.in-Some.ensures.steps in
    sym (none_many t6 (omega arith))
