-- The paper's twelve benchmarks hold.
use Rattle.benchmarks.specs.Rows.{Rows}
use Rattle.benchmarks.proofs.FlatRows.{row_1, row_7, row_8, row_9, row_12}
use Rattle.benchmarks.proofs.PageRows.{row_2, row_3, row_6}
use Rattle.benchmarks.proofs.CutRows.{row_4, row_5}
use Rattle.benchmarks.proofs.LastRow.{row_10}
use Rattle.benchmarks.proofs.TidyRow.{row_11}

pub all_rows : Rows
all_rows = record {
  row_1 = row_1;
  row_2 = row_2;
  row_3 = row_3;
  row_4 = row_4;
  row_5 = row_5;
  row_6 = row_6;
  row_7 = row_7;
  row_8 = row_8;
  row_9 = row_9;
  row_10 = row_10;
  row_11 = row_11;
  row_12 = row_12;
}
