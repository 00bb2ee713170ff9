mod Shelving
mod Showing
