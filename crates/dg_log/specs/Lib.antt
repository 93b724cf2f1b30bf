-- Histories in cells, and receipts.
pub mod Numbered
pub mod Written
pub mod Rows
pub mod Tables
-- Words of private fields.
pub mod Nobody
pub mod ReceiptSets
pub mod Witnesses
pub mod Rolls
