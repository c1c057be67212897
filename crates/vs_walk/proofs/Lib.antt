pub mod FewLayers
pub mod GivenLayers
pub mod KeptChoices
