mod Counting
mod GivenLemmas
