-- Tables as code writes them: one row, a table of which one row was written, a table written row by row.
pub mod Rows
pub mod RowByRow
