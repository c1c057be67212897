pub mod AlikeClaims
pub mod JudgedAlike
