pub mod CodeBits
