mod Examples
mod Tests
mod Twos
