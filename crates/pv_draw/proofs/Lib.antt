mod Asking
mod Fetching
mod LeastFound
mod Answering
mod DrawnOnce
