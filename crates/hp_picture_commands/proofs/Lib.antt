mod Listed
mod Audited
mod Flattened
mod Written
