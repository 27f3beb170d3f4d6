mod Places
mod Acted
mod Same
mod Hiding
mod Taking
mod Names
mod Events
mod Filing
mod Asked
mod Changed
mod Mutations
mod Following
pub mod Counting
mod Grouping
mod Children
mod NotedGroups
mod Deleting
pub mod Unseen
