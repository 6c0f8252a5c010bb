-- The view of a run: read Views, the call's promise; `layout` has the definition. Judged and Shows are of private steps.
pub mod Judged
pub mod Shows
pub mod Views
