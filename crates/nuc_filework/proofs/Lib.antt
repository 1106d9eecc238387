mod Lacking
mod Running
