pub mod CallerLemmas
mod RestTimes
