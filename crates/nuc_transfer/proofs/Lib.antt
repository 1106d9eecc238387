mod Growing
mod Oks
mod Originals
mod Starts
