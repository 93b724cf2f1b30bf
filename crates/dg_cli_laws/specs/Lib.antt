-- What command lines mean.
pub mod OneMeaning
