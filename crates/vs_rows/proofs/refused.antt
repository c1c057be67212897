pub mod RefusedRows
pub mod RefusedOnce
pub mod SamePlaces
pub mod WrongPrices
