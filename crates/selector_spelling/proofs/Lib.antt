mod Accepted
mod Refused
