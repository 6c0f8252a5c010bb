-- What judging one record of a schedule answers, and what the loop over a schedule is given of it.
pub mod Judges
pub mod Dues
