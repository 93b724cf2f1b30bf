-- What receipts say, the cells that a pen has set, and what is known of them.
mod AllNoted
mod Cells
mod ReceiptSets
mod Rolls
mod Tokens
pub mod Common
