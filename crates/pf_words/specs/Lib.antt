pub mod Program
pub mod Said
