-- What `take_apart` promises, in the words of the rules' definitions (rules/specs/Encode.antt).
pub mod Taken
pub mod Taking
