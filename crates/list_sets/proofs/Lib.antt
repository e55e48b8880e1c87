mod Noting
mod AskedOnce
