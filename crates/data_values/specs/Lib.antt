pub mod Met
pub mod Put
