mod Reporting
mod Drafted
