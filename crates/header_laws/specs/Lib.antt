pub mod NamesAgree
