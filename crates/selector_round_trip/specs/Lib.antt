pub mod Balanced
pub mod RoundTrip
