mod Digits
mod Given
mod Standing
