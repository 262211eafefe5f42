pub mod FactorBytes
