-- What the contracts of `lines` mean: read Cuts, Forms and Feeds; Inner is for the functions inside.
pub mod Cuts
pub mod Forms
pub mod Feeds
pub mod Inner
