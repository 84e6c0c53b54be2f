-- The proof files.
mod Misses
