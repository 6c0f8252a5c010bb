-- Why a page is the rules'.
pub mod Putting
pub mod Spelling
pub mod Lining
pub mod Paging
