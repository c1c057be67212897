pub mod Places
pub mod DocumentRefusals
pub mod Alike
pub mod Form
pub mod ReadingBack
pub mod Laws
pub mod RowKinds
pub mod Reading
