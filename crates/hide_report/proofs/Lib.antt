mod Counting
mod NodeNames
