-- Arithmetic and sums.
pub mod Products
pub mod Absolute
pub mod SumLaws
pub mod SumSwap
pub mod SumBounds
pub mod SumTotals
pub mod TotalLaws
pub mod Searching
-- Graphs and firing.
pub mod Chains
pub mod Agreement
pub mod FiringLaws
pub mod SetFiring
pub mod Scripts
pub mod Exchange
pub mod Multiples
-- One edge more.
pub mod JoinLaws
-- Winning, reduced divisors and burning.
pub mod Plays
pub mod Equivalence
pub mod Winning
pub mod Largest
pub mod Levels
pub mod Lending
pub mod ReducedLaws
pub mod ConstantLaws
pub mod BurningOrder
pub mod BurningLaws
pub mod BurntWhole
-- How far the entries of a script can lie apart.
pub mod Cuts
pub mod Counting
pub mod Climbs
pub mod Bounds
-- The degree of a reduced divisor.
pub mod Leaving
pub mod GenusLaws
-- That reductions end, and how large their amounts get on the way.
pub mod Distances
pub mod Few
pub mod Waits
pub mod Reach
pub mod Debts
pub mod Potential
pub mod Weights
pub mod Range
-- That every divisor can be fired to a reduced one, for amounts of any size.
pub mod Orders
pub mod Heights
pub mod Clearing
pub mod Unburnt
pub mod ExistenceLaws
-- Rank tests and first losses.
pub mod Giving
-- The exchange of two vertices.
pub mod Twins
pub mod RankLaws
pub mod LossLaws
-- The theorem of Riemann and Roch.
pub mod OrderDivisors
pub mod OrderDegrees
pub mod BurningPlaces
pub mod DualityLaws
pub mod RankNumbers
pub mod RankSums
pub mod RankExists
-- Losses told by burning.
pub mod Burnings
pub mod Common
