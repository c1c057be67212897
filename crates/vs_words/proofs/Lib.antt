pub mod CommandWords
pub mod OptionWords
pub mod ShortNumbers
pub mod WordLaws
