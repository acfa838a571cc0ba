mod Forms
mod Rows
