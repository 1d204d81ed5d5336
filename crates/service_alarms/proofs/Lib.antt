mod Fittings
mod Found
mod Same
