-- what public contracts say
pub mod Standing
-- what the functions of this crate do
pub mod Parts
