-- The laws of the search: a point brought into the window, and the cells that it stands for.
pub mod Descent
pub mod Cells
