mod Refused
mod Totals
