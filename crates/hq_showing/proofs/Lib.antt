mod Shows
mod Queues
mod Packs
mod PackReports
