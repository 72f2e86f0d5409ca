mod Tasks
mod Moves
mod StockKits
mod KitLists
