-- The label line (document 02, W-203): read Line, then Outlet; Spaced for the plain cabinet's programs; Labels for the
-- calls' promises. Puts is of private steps.
pub mod Line
pub mod Outlet
pub mod Spaced
pub mod Labels
pub mod Puts
