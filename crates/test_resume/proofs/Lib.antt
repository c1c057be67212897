mod AloneSearches
mod HandedIn
mod Ends
