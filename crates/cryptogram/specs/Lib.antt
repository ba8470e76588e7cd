pub mod Cryptogram
