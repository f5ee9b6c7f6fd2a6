-- what public contracts and laws say
pub mod Fold
