pub mod FirstNo
