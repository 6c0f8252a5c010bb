-- The whole cabinet as numbers: View is the definition; Lists has the same numbers from the store that holds a cabinet.
pub mod View
pub mod Lists
