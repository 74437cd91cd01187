pub mod FinalLines
