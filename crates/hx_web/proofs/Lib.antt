mod Responses
