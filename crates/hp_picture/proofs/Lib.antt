mod Taken
mod Laid
mod Again
mod Taking
