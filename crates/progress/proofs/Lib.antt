-- A cabinet is quiet, goes on by itself, or stands still by back-pressure;
pub mod Progress
-- a process with hold-back is level again after 64 steps of its own at most;
pub mod CatchUp
-- a standstill lasts until a feed or a crash, and the plain cabinet goes on there;
pub mod Standstill
-- a rule for those who design tables;
pub mod Upward
-- and a standstill, computed.
pub mod StandstillCases
