mod Listings
mod Verdicts
mod Traces
mod Lengths
