mod Entries
mod Searching
mod Listed
