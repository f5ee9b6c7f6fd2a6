-- what public contracts and laws say
pub mod Names
pub mod Parameters
pub mod Operations
pub mod Reasons
pub mod Sets
pub mod StepLines
pub mod Variables
pub mod Lines
pub mod Reading
pub mod Faults
pub mod Certificates
pub mod BadCerts
pub mod Answers
pub mod Laws
-- the vocabulary of private functions
pub mod Places
-- laws, which the formats hold
pub mod VariableLaws
pub mod FactLaws
pub mod ReasonLaws
pub mod SetLaws
