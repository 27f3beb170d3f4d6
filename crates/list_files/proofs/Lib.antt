mod Asking
mod Items
mod ListsLeft
mod TextsLeft
