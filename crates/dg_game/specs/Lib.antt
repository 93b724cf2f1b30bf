-- Schedules, and when they are refused.
pub mod Schedule
pub mod ScheduleFaults
-- Words of private functions: a schedule as it is played.
pub mod Rehearsal
