mod Splitting
mod Asked
